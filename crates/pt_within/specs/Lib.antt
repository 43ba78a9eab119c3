pub mod Gives
pub mod Within
