pub mod Floats
pub mod Vector
pub mod ChordAngle
