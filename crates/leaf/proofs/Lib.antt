pub mod Names
pub mod Writing
pub mod Answers
pub mod Sound
pub mod Exactly
pub mod Worked
