pub mod Ensures
pub mod Faces
