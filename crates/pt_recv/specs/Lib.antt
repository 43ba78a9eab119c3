pub mod Spared
pub mod Lines
pub mod Fronts
