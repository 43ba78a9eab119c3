pub mod StageLaws
pub mod CoreLaws
