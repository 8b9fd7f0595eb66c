pub mod Branches
pub mod Taken
pub mod Histories
pub mod Lefts
pub mod Runs
pub mod Said
pub mod Shape
