pub mod RecordedLists
pub mod PortLaws
pub mod WithinLaws
pub mod LabelLaws
