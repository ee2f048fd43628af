pub mod WholeLaws
pub mod NearestLaws
pub mod PatternLaws
pub mod WordLaws
pub mod Values
