pub mod Dropping
pub mod Portions
pub mod Ticks
pub mod OneFiring
pub mod Turns
pub mod AloneTurns
