pub mod Chains
pub mod Linked
pub mod Pool
pub mod Queues
pub mod Values
