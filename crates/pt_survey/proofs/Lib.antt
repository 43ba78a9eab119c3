pub mod Surveys
pub mod TableSteps
