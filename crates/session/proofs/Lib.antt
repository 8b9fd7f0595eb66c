pub mod Showing
pub mod Going
pub mod Settling
pub mod Carrying
pub mod Claims
