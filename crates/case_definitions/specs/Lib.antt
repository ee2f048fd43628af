pub mod Definitions
pub mod Ensures
pub mod Faces
