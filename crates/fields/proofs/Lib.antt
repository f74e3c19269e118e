pub mod LetterMarks
pub mod Name
mod Worked
pub mod Letter
