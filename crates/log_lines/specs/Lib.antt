pub mod Asked
pub mod Logged
pub mod Claims
