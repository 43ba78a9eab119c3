pub mod Resolve
pub mod Row
pub mod Ties
pub mod Wiring
pub mod Recorded
