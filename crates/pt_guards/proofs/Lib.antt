pub mod NameLaws
pub mod PlacedLaws
pub mod ShownLaws
pub mod EvaluationLaws
pub mod ListLaws
pub mod ChooseLaws
pub mod RightLaws
pub mod ActLaws
