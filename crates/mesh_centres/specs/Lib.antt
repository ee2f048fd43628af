pub mod Ensures
pub mod Finish
