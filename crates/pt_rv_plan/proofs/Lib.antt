pub mod FanLaws
pub mod TargetLaws
pub mod PlanLaws
