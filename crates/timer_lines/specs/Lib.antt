pub mod Asked
pub mod Called
pub mod Made
pub mod Shown
pub mod Named
pub mod Claims
