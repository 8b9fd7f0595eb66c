pub mod Watch
pub mod Account
pub mod Reading
