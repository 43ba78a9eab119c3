pub mod Firings
pub mod Iteration
pub mod Block
pub mod Workers
pub mod Grown
