pub mod Ensures
pub mod Serve
