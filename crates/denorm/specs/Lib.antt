pub mod Denorm
