pub mod FaceLaws
pub mod LengthLaws
pub mod AnswerLaws
