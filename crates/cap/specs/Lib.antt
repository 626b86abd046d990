pub mod Cap
pub mod Bound
pub mod Looks
