pub mod Ensures
pub mod Line
pub mod Rake
