pub mod Placed
pub mod Reads
pub mod Bindings
pub mod Told
pub mod Choose
pub mod Acts
