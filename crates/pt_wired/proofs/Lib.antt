pub mod NeedSteps
pub mod FlagLaws
pub mod WiredLaws
