pub mod Runs
pub mod Loops
pub mod Events
