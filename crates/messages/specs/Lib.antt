pub mod Hosts
pub mod Order
pub mod Search
