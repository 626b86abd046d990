pub mod Memory
pub mod Stands
pub mod Adds
pub mod Steps
pub mod Runs
pub mod Answers
pub mod Watching
