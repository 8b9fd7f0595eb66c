pub mod Kinds
pub mod Count
pub mod Distance
pub mod Claims
