pub mod Packing
pub mod Holding
pub mod Claims
