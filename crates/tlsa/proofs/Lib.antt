pub mod Record
pub mod Ignored
pub mod Answer
pub mod Meaning
pub mod Written
mod Worked
