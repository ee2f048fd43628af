pub mod Reachable
pub mod Counting
pub mod Rounds
pub mod Enough
pub mod SearchLaws
pub mod Shared
pub mod Samples
