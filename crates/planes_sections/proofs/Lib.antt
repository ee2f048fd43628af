pub mod AngleLaws
pub mod PieceLaws
