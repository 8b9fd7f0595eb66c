pub mod Ordering
pub mod Areas
pub mod Lengths
pub mod Claims
