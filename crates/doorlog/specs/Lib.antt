pub mod Doors
pub mod Dumps
pub mod Rings
