pub mod PinLines
pub mod Claims
