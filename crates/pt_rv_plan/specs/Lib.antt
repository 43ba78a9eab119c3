pub mod Codes
pub mod Targets
pub mod Plan
pub mod Ends
pub mod Inlet
pub mod Meetings
