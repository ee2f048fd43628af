pub mod Cut
pub mod Ensures
pub mod Plane
