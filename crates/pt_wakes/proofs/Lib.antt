pub mod Earlier
pub mod QueueLaws
pub mod WalkLaws
pub mod NodeLaws
pub mod KeyLaws
pub mod MovedLaws
