pub mod StateLaws
pub mod DeliverLaws
pub mod ReactionLaws
pub mod RoomLaws
pub mod SignalLaws
