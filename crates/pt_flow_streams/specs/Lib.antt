pub mod Const
pub mod Sequence
pub mod DownSample
pub mod UpSample
pub mod Repeat
pub mod SampleDelay
pub mod BooleanSwitch
pub mod BooleanSelect
