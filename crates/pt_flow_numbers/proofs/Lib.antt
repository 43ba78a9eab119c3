pub mod Extremes
pub mod Quotients
pub mod Pairs
