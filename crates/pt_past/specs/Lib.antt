pub mod Recorded
pub mod Meetings
