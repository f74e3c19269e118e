pub mod Record
pub mod Answer
pub mod Address
