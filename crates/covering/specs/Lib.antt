pub mod Covering
pub mod Watch
