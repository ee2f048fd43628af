pub mod Sample
pub mod Statistics
pub mod Integrals
pub mod Probe
pub mod Words
pub mod Kept
