pub mod FaceLaws
pub mod CellLaws
