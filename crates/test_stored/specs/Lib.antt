pub mod Fnv
pub mod Pieces
