pub mod Answer
pub mod Ensures
pub mod Words
