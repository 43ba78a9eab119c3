pub mod LoopLaws
pub mod MetLaws
