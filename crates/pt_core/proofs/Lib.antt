pub mod MetLaws
pub mod EitherLaws
pub mod ReachedLaws
