pub mod Directions
pub mod Millimetres
pub mod Copy
