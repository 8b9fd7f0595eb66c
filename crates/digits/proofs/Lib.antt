pub mod Pairing
pub mod Storing
