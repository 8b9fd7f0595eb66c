pub mod Passage
pub mod Law
