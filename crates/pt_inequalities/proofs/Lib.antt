pub mod Steps
pub mod Joined
pub mod RefinementLaws
pub mod ChartLaws
