pub mod Lists
pub mod Shapes
pub mod Shifts
pub mod Starts
pub mod Watchdogs
