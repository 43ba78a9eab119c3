pub mod Members
pub mod Opaque
