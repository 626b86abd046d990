pub mod Run
pub mod Editions
pub mod Masks
pub mod Ground
pub mod Sixes
pub mod Places
