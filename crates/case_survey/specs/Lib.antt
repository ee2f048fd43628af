pub mod Ensures
pub mod Survey
