pub mod Timers
pub mod Places
pub mod Sheet
