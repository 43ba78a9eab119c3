pub mod MeetingsExample
pub mod TopLaws
pub mod DirectorLaws
pub mod NodeLaws
pub mod NeedLaws
pub mod FreshLaws
pub mod ChildLaws
