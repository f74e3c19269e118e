pub mod Texts
pub mod Judging
pub mod Stages
