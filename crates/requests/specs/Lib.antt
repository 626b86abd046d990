pub mod Line
pub mod Requests
