pub mod State
pub mod Lawful
pub mod Chain
pub mod SoFar
pub mod Comes
pub mod PnActs
