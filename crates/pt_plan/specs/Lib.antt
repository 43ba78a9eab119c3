pub mod Channels
pub mod Fault
pub mod Inside
pub mod Iteration
pub mod Laws
pub mod PlanOf
pub mod Rooms
pub mod Unfed
