pub mod Angle
pub mod Ensures
pub mod Sort
pub mod Stable
