pub mod Page
pub mod Kept
pub mod Claims
