pub mod Sched
pub mod Claims
