pub mod Ensures
