pub mod Chains
pub mod Ensures
pub mod Records
