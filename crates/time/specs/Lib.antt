pub mod Units
pub mod Clock
pub mod Halts
