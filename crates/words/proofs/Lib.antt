pub mod Places
pub mod Numerals
pub mod Tens
