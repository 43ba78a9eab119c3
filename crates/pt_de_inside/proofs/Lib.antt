pub mod StepLaws
pub mod StartedLaws
pub mod FlagLaws
pub mod FormLaws
pub mod SuitLaws
pub mod OutputLaws
pub mod PlannedLaws
