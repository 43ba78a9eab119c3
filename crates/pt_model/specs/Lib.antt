pub mod Model
pub mod Typed
pub mod Checked
