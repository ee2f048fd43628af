pub mod ReadLaws
pub mod TrailerLaws
pub mod OutsideLaws
pub mod ZoneLaws
pub mod FieldLaws
