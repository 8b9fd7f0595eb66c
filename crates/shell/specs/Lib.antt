pub mod Numbers
pub mod Histories
pub mod Runs
