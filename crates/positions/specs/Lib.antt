pub mod Positions
pub mod Table
