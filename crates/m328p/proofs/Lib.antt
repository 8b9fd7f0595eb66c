pub mod Owners
pub mod Claims
pub mod Sheet
