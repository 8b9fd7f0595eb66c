pub mod Texts
pub mod Lines
pub mod Kept
pub mod Claims
