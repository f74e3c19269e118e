pub mod Sizes
pub mod Heads
pub mod Elements
pub mod Walks
pub mod Longer
