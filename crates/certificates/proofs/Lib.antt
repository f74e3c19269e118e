pub mod FactsReturns
pub mod Matching
pub mod Passing
pub mod Strongest
pub mod Naming
pub mod Checks
pub mod Limits
pub mod References
pub mod Safety
pub mod Digests
pub mod Shift
pub mod Written
mod Worked
