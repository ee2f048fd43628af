pub mod LimitLaws
pub mod GridLaws
pub mod RangeLaws
pub mod VertexLaws
pub mod PolygonLaws
pub mod BuildLaws
