pub mod Ensures
pub mod Listing
