pub mod Keeps
pub mod Outcomes
pub mod Alike
pub mod Quiet
pub mod Progress
pub mod Readings
