pub mod Behind
pub mod WordLaws
pub mod BufferLaws
pub mod BehindLaws
