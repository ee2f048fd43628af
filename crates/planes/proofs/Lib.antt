pub mod ReplyLaws
pub mod TreeLaws
pub mod SectionLaws
