pub mod Wired
pub mod ClassPorts
pub mod Laws
