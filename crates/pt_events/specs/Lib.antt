pub mod Placed
pub mod Entries
pub mod Queue
pub mod Stores
pub mod Depths
pub mod Found
pub mod Laws
pub mod Examples
