pub mod Crossings
pub mod Ensures
