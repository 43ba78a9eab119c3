pub mod EdgeLaws
pub mod PlanLaws
pub mod AgainLaws
pub mod TotalLaws
