pub mod StageView
pub mod Fields
pub mod Rules
pub mod Limits
pub mod Forms
pub mod Reading
pub mod Stands
