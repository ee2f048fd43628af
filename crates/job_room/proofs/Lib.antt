pub mod MeshLaws
pub mod WithinLaws
pub mod Laws
pub mod StepLaws
