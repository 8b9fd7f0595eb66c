pub mod Ahead
pub mod Passing
pub mod Same
pub mod Untouched
pub mod Flagged
pub mod Announced
