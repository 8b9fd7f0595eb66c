pub mod Packing
pub mod Sheets
pub mod Lengths
pub mod Claims
