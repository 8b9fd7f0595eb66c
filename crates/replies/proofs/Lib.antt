pub mod Begun
pub mod Listed
pub mod Reported
pub mod Shape
