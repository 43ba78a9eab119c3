pub mod Walking
pub mod EntityParts
pub mod Unseen
pub mod Unnamed
