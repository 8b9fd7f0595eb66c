pub mod Laws
pub mod Passes
pub mod Holds
pub mod Puts
pub mod Answers
pub mod Accepts
pub mod Stills
pub mod Stores
