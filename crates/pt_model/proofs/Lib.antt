pub mod TopLaws
pub mod Outcomes
pub mod TypedLaws
pub mod StatedLaws
pub mod Refinements
pub mod TreesBuilt
