pub mod Machine
pub mod Names
pub mod Typed
pub mod Chart
pub mod Reacted
pub mod Views
