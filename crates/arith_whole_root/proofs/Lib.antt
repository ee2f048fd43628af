pub mod Takes
pub mod Steps
pub mod Whole
pub mod Halves
