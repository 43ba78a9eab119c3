pub mod Leaves
pub mod Told
pub mod Paths
pub mod Laws
