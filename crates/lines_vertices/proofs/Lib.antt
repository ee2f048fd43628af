pub mod Shapes
pub mod LimitLaws
pub mod TableLaws
pub mod CellLaws
pub mod VertexLaws
