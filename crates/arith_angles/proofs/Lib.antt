pub mod WeakOrder
pub mod PlaceLaws
pub mod OrderLaws
pub mod StableLaws
