pub mod WalkLaws
pub mod RecordLaws
pub mod Walking
pub mod AlikeLaws
