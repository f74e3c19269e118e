pub mod Texts
pub mod PrintableMarks
pub mod Values
pub mod Takes
pub mod Body
pub mod Front
pub mod Same
pub mod Answers
pub mod Forms
pub mod Unicode
pub mod Ends
pub mod Exactly
pub mod Paper
pub mod Begins
pub mod Diagnosis
pub mod Sanity
mod Worked
pub mod Parts
