pub mod Link
pub mod OutlineLaws
pub mod UnmetLaws
pub mod ActsLaws
pub mod ResetLaws
pub mod ResetLoop
pub mod WakeLaws
pub mod InTurnLaws
