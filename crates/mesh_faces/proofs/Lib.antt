pub mod TableLaws
pub mod AreaLaws
pub mod AnswerLaws
pub mod Samples
