pub mod TokenLines
pub mod MeetingLines
pub mod Forms
