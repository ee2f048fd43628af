pub mod Case
pub mod Ensures
pub mod Mesh
