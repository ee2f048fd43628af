pub mod RecordParts
pub mod Last
pub mod ChainLaws
