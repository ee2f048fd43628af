pub mod Ensures
pub mod Table
