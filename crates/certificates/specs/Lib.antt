pub mod Facts
pub mod Limits
pub mod Checks
pub mod Steps
