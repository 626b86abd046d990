pub mod Tokens
pub mod Texts
pub mod Steps
