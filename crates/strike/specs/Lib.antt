pub mod Strike
