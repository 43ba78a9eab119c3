pub mod Tells
pub mod Lines
pub mod Inside
pub mod Examples
