pub mod Laws
pub mod OrderLaws
pub mod CrossLaws
pub mod LimitLaws
pub mod ParityLaws
pub mod SizeLaws
pub mod ReachLaws
pub mod RiseLaws
