pub mod Collect
