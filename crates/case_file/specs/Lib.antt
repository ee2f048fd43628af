pub mod Ensures
pub mod Field
pub mod Same
pub mod Trailer
