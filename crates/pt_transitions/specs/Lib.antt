pub mod Moves
pub mod Alone
