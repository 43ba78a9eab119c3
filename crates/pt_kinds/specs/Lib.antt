pub mod Moves
pub mod Directors
pub mod Signature
pub mod TypedTree
pub mod TypedRuns
