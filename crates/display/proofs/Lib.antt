pub mod Hexes
pub mod Tellings
pub mod Lengths
pub mod Claims
