pub mod Runs
pub mod Loop
pub mod Syncs
pub mod Advances
