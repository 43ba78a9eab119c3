pub mod Signalling
pub mod AtOnce
