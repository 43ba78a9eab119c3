pub mod Needs
pub mod Nonstrict
