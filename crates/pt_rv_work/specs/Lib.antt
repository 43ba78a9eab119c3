pub mod Core
pub mod Seen
