pub mod Cuts
pub mod Claims
