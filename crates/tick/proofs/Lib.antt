pub mod Choices
pub mod Bounds
pub mod Still
pub mod Writes
pub mod Ticks
pub mod Sizes
