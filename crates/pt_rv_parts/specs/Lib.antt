pub mod Codes
pub mod Process
pub mod Flags
pub mod Team
