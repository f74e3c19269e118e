pub mod Arrays
pub mod Order
pub mod Unique
pub mod Finds
pub mod Returns
pub mod Decision
mod Worked
