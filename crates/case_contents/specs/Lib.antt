pub mod Contents
pub mod Refusals
pub mod Accepted
pub mod Promise
