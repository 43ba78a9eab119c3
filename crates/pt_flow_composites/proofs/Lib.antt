pub mod ChildLaws
pub mod SdfLaws
pub mod PnLaws
pub mod RendezvousLaws
pub mod PlanLaws
pub mod InsideLaws
