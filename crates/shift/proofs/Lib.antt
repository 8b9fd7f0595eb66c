pub mod Counting
pub mod Following
pub mod Late
pub mod Signs
pub mod Refusals
pub mod Within
pub mod Determined
