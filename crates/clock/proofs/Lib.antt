pub mod Signed
pub mod Laws
pub mod Returns
mod Worked
