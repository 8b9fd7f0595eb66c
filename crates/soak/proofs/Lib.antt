pub mod Chunks
pub mod Prefixes
pub mod FirstPass
pub mod SecondPass
pub mod Files
pub mod Claims
