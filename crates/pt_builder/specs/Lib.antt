pub mod Starts
pub mod Reached
