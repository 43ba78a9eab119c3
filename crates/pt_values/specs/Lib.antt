pub mod Walk
pub mod Ports
