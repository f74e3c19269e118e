pub mod Counts
pub mod Calls
pub mod Day
pub mod Steps
