pub mod Promises
pub mod Rows
pub mod Answers
pub mod Engines
