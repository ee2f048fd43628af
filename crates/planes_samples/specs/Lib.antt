pub mod Ensures
pub mod Sampling
