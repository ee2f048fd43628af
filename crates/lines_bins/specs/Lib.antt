pub mod Ensures
pub mod Index
