pub mod Renews
pub mod Standing
pub mod Files
pub mod Ticks
pub mod Captures
pub mod Turns
pub mod Goes
