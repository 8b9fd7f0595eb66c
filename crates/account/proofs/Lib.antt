pub mod Flags
pub mod Records
pub mod Ticks
pub mod Spans
pub mod Works
pub mod Account
pub mod Reading
