pub mod Scheduler
pub mod Runs
