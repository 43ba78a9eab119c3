pub mod TreeLaws
pub mod FaultLaws
pub mod LoopLaws
pub mod TopLaws
pub mod NestedLaws
pub mod MachineLaws
