pub mod Positions
pub mod Members
pub mod Order
pub mod Fits
pub mod Present
pub mod Timed
pub mod Paired
