pub mod Resolved
pub mod Begun
pub mod Refused
pub mod Asked
