pub mod Digits
pub mod Names
pub mod Lines
pub mod Turns
pub mod Laws
pub mod Answers
pub mod Examples
