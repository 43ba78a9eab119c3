pub mod State
pub mod Lawful
pub mod Chain
pub mod Apart
pub mod SoFar
pub mod Comes
pub mod RvActs
