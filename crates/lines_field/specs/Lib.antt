pub mod Bins
pub mod Bounds
pub mod Ensures
pub mod Field
pub mod Vertices
