pub mod Made
pub mod Children
pub mod Block
