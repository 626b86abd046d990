pub mod Floats
pub mod Laws
