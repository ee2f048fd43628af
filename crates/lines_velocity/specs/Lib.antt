pub mod Ensures
pub mod Velocity
