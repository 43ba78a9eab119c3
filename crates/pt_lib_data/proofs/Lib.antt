pub mod RowLaws
mod Present
mod Tokens
mod Assembled
pub mod Steadiness
pub mod Giving
pub mod Bounds
