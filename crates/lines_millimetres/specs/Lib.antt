pub mod Ensures
pub mod Nearest
