pub mod Adding
pub mod Packing
pub mod Working
pub mod Lengths
pub mod Claims
