pub mod Places
pub mod TypedPorts
pub mod Repetitions
pub mod Zeros
pub mod InTurn
