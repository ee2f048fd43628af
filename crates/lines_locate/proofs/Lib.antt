pub mod LocateLaws
pub mod IndexLaws
pub mod IndexRises
pub mod RangeLaws
pub mod SearchLaws
pub mod FoundLaws
