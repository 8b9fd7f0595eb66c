pub mod Choices
pub mod Told
pub mod Driven
pub mod Masks
pub mod Laws
pub mod Flags
