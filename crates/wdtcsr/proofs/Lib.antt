pub mod Ticks
pub mod Bounds
