pub mod Numbers
pub mod Cut
pub mod Iterate
pub mod Loop
pub mod Written
mod Worked
