pub mod Fault
pub mod Changes
pub mod Refusal
pub mod Check
pub mod Claims
