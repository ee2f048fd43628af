pub mod Going
pub mod PartialLaws
pub mod CellLaws
pub mod Laws
pub mod HeldLaws
