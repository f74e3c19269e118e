pub mod Paper
pub mod Rdata
pub mod Grammar
pub mod Txt
pub mod Steps
