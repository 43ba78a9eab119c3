pub mod Inside
pub mod Feeds
pub mod Depths
pub mod Edges
pub mod Laws
pub mod Again
