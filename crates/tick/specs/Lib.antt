pub mod Setting
pub mod Outputs
pub mod Tick
pub mod Skip
pub mod Distance
pub mod Sound
pub mod Keeps
