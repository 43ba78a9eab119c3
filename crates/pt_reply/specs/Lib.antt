pub mod Texts
pub mod Tells
