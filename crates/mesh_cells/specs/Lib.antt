pub mod Cells
pub mod Ensures
pub mod Partial
