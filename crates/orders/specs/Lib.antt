pub mod Nights
pub mod Orders
