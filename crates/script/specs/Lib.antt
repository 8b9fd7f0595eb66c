pub mod Presets
pub mod Configs
pub mod Readings
