pub mod Inputs
pub mod Iterations
pub mod Lookup
pub mod Names
