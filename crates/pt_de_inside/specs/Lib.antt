pub mod Inside
pub mod Planned
pub mod Laws
