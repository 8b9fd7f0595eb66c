pub mod Telling
pub mod Claims
pub mod Naming
