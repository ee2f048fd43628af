pub mod ListLaws
pub mod AnswerLaws
pub mod ThroughLaws
pub mod JobLaws
pub mod Demand3
pub mod PromiseLaws
pub mod UseLaws
pub mod NumberLaws
