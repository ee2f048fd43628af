pub mod Turns
pub mod MeshLaws
pub mod ReachLaws
pub mod SignLaws
