pub mod GroupSteps
pub mod OneSource
pub mod Givers
pub mod GiftFacts
pub mod Singles
pub mod WayFacts
pub mod ChannelSteps
pub mod Verdict
