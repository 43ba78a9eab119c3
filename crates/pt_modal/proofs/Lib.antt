pub mod StayLaws
pub mod WakeLaws
pub mod FirstLaws
pub mod CoreLaws
pub mod SignalLaws
