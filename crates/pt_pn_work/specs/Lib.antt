pub mod Core
pub mod Least
pub mod Seen
