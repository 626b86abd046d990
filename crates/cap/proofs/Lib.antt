pub mod Laws
pub mod Table
pub mod BoundLaws
pub mod Looks
pub mod Siblings
