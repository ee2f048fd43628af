pub mod Ensures
pub mod Job
pub mod List
pub mod Promise
