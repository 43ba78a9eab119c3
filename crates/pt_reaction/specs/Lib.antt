pub mod Marks
pub mod Spared
pub mod Lines
pub mod Channels
pub mod Offsets
pub mod Feeds
pub mod Given
