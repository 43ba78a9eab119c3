pub mod Sequences
pub mod UpSamples
