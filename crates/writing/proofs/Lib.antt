pub mod Over
pub mod Decimal
pub mod Digits
pub mod Written
pub mod WriteReturns
