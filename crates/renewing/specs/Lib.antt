pub mod Stands
pub mod Halts
pub mod Edges
pub mod Onward
pub mod Resets
