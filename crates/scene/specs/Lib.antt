pub mod Scene
pub mod Laws
