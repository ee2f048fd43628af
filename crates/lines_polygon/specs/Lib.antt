pub mod Vertices
pub mod Contains
pub mod Extent
