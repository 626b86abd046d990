pub mod Laws
pub mod Nights
