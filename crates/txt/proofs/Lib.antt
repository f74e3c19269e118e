pub mod Strings
pub mod Candidates
pub mod ValueMarks
pub mod Forms
pub mod Answers
pub mod CallReturns
pub mod Places
pub mod Paper
pub mod Sanity
pub mod Exactly
mod Worked
pub mod Writing
