pub mod Children
pub mod Ports
pub mod Channels
