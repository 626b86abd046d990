pub mod Coverer
pub mod Engine
pub mod Watch
