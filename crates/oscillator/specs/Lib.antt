pub mod State
pub mod Oscillator
