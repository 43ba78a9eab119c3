pub mod Examples
pub mod ReactionLaws
pub mod PartLaws
pub mod NodeLaws
pub mod FiringLaws
pub mod ActsLaws
pub mod ComesLaws
