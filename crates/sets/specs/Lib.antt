pub mod Sets
pub mod Algebra
pub mod Steps
