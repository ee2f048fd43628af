pub mod CodeLaws
pub mod Laws
pub mod EncodeLaws
