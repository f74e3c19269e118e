pub mod Pairs
pub mod Name
pub mod Scan
