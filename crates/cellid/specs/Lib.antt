pub mod CellId
