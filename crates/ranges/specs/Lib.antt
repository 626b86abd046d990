pub mod Ranges
pub mod Stretches
pub mod Steps
