pub mod Stretching
pub mod Together
