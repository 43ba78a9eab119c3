pub mod LineLaws
pub mod FrontLaws
