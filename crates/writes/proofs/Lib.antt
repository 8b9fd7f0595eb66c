pub mod Rests
pub mod Lists
pub mod Claims
pub mod Readings
