pub mod Gathering
pub mod Walking
