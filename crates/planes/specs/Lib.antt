pub mod Answers
pub mod Ensures
