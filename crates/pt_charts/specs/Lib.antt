pub mod Views
pub mod Readable
