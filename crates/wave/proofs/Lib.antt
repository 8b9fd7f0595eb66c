pub mod Signs
pub mod Steps
pub mod Searches
pub mod Looks
