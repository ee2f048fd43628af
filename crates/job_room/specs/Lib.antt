pub mod Ensures
pub mod Room
