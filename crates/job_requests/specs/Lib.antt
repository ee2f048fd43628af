pub mod Codes
pub mod Requests
pub mod Bounds
pub mod Encode
