pub mod Shift
pub mod Claims
