pub mod Doors
pub mod Claims
