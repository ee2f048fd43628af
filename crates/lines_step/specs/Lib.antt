pub mod RungeKutta
pub mod Step
