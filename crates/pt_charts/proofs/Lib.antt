pub mod ReadableLaws
pub mod Tokens
