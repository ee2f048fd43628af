pub mod HeldLaws
pub mod PlaneLaws
pub mod SideLaws
pub mod CloseLaws
