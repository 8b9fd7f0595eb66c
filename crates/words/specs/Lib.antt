pub mod Reasons
pub mod Words
pub mod Numbers
pub mod Decimals
