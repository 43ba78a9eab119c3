pub mod Acts
pub mod Source
pub mod Met
pub mod Lawful
pub mod Reached
pub mod EitherActs
