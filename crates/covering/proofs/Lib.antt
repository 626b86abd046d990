pub mod Answers
pub mod Starts
pub mod Table
pub mod Watching
