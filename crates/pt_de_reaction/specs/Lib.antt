pub mod Reaction
pub mod Signals
