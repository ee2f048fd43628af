pub mod VelocityLaws
pub mod ReachLaws
pub mod TracerLaws
