pub mod CellUnion
pub mod Stack
pub mod Memory
