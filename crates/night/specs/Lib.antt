pub mod Night
