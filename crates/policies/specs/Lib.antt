pub mod Paper
pub mod Texts
pub mod Lines
pub mod Fields
pub mod Policy
pub mod Diagnosis
pub mod Reader
