pub mod ByNeed
pub mod Plan
pub mod Feeds
pub mod Rooms
pub mod Lanes
pub mod InFront
pub mod Stretches
pub mod Lawful
