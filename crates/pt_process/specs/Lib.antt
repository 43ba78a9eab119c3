pub mod Codes
pub mod Process
pub mod Plan
pub mod Network
