pub mod State
pub mod Lawful
pub mod Chain
pub mod SoFar
pub mod DeActs
pub mod Comes
