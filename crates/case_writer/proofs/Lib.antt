pub mod CheckLaws
pub mod PartLaws
pub mod FileLaws
