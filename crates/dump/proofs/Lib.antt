pub mod Writing
pub mod Lines
pub mod Claims
pub mod Answering
