pub mod HomeLaws
pub mod LineLaws
pub mod LocateLaws
pub mod JobLaws
