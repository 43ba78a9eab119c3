pub mod RecordedLaws
pub mod MeetingsLaws
