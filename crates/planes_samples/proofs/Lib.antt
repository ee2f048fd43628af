pub mod StreamLaws
pub mod StepLaws
