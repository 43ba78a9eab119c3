pub mod ReportLaws
pub mod MeetingsTold
pub mod AnswerLaws
pub mod CheckLaws
pub mod Completeness
pub mod TaskLaws
