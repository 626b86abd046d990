pub mod Laws
pub mod Lengths
pub mod Algebra
pub mod Turns
pub mod Answers
