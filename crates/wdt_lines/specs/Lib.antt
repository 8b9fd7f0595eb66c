pub mod Asked
pub mod Shown
pub mod Called
pub mod Claims
