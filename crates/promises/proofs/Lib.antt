pub mod Runs
pub mod Example
pub mod Rows
pub mod Lists
pub mod Answers
pub mod Engines
pub mod Calls
pub mod Nights
