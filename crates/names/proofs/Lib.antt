pub mod Pairs
pub mod Name
pub mod Cover
pub mod Match
pub mod Patterns
pub mod Exactly
mod Worked
pub mod Label
