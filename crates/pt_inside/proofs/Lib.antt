pub mod HeldLaws
pub mod LoopLaws
pub mod KeptLaws
