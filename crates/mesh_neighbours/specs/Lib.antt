pub mod Ensures
pub mod Neighbours
