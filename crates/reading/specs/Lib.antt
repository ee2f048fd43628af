pub mod Result
pub mod Asks
pub mod Marks
pub mod Served
pub mod After
