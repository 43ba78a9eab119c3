pub mod ProcessLaws
pub mod FanLaws
pub mod NetworkLaws
pub mod RoomLaws
pub mod StagedLaws
pub mod StepLaws
pub mod CopyLaws
