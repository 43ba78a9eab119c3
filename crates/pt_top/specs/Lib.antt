pub mod Reply
pub mod Check
pub mod Outcome
