pub mod Ensures
pub mod Intersect
