pub mod Hearing
pub mod Shelving
pub mod Feeding
pub mod Stepping
pub mod Coding
pub mod Claims
pub mod Readings
