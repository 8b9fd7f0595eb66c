pub mod Asked
pub mod Shown
pub mod Ordered
pub mod Claims
