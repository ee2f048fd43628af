pub mod Connection
pub mod Ensures
