pub mod Joined
pub mod Marks
pub mod Types
pub mod Marked
pub mod Children
pub mod Facts
