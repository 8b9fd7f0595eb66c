pub mod Desk
pub mod Lines
pub mod Named
pub mod Shelved
pub mod Steps
pub mod Claims
pub mod Readings
