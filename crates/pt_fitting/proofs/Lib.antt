pub mod Sound
pub mod Kids
pub mod Machines
pub mod Joined
