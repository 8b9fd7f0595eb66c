pub mod Rises
pub mod Strikes
pub mod Climbs
