pub mod Silent
pub mod Reaches
