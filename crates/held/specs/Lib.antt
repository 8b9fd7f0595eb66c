pub mod Held
pub mod Reply
pub mod Quick
pub mod Write
pub mod Laws
