pub mod Door
pub mod Claims
