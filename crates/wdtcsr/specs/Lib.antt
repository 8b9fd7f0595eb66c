pub mod State
pub mod Timeouts
pub mod Wdtcsr
