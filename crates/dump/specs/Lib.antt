pub mod Dump
pub mod Pieces
pub mod Answers
pub mod Claims
