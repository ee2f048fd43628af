pub mod Bins
pub mod Ensures
pub mod Field
pub mod Layout
pub mod Locate
pub mod Ranges
