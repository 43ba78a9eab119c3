pub mod Fields
pub mod Joins
pub mod Order
pub mod Parts
pub mod Rank
