pub mod Going
pub mod AsksLaws
pub mod MarksLaws
pub mod ServedLaws
pub mod ResultLaws
pub mod Within
pub mod TwoRuns
