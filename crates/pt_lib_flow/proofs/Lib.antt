pub mod RowLaws
pub mod Typings
pub mod Evaluations
pub mod Held
pub mod Steadiness
pub mod Bounds
pub mod Giving
