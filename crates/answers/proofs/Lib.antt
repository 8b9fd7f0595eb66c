pub mod Determined
pub mod Outcomes
