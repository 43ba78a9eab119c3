pub mod Going
pub mod Example
