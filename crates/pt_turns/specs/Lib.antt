pub mod Within
pub mod OwnMeetings
pub mod Composite
pub mod Turns
pub mod Between
