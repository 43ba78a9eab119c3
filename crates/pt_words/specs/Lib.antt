pub mod Command
pub mod Matches
pub mod Number
pub mod Parts
