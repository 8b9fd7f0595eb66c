pub mod Outcome
pub mod Calls
pub mod Claims
pub mod Readings
