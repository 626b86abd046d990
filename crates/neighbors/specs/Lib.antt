pub mod Neighbors
