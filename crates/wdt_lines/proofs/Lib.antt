pub mod Telling
pub mod Lengths
pub mod Claims
