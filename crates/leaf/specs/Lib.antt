pub mod Names
pub mod Read
