pub mod Fast
pub mod Memory
