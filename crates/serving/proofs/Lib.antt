pub mod Past
pub mod Modes
pub mod Replied
pub mod Laws
pub mod Works
pub mod Looks
