pub mod Spelling
pub mod Storing
