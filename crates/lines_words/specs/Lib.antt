pub mod Ensures
pub mod Pen
pub mod Sheet
pub mod Words
