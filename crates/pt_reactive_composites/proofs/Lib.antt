pub mod SrLaws
pub mod DeLaws
