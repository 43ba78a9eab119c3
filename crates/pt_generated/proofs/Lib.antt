mod Numbered
mod Entities
mod Counted
mod Sayable
pub mod Texts
