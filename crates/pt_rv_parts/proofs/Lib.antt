pub mod ListLaws
pub mod GatherLaws
pub mod StepLaws
pub mod CopyLaws
pub mod FlagLaws
pub mod TeamLaws
