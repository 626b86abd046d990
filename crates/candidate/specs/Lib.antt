pub mod Candidate
pub mod Asking
