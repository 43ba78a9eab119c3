pub mod FlowLaws
pub mod RoundLaws
pub mod PartLaws
pub mod BlockLaws
pub mod WorkLaws
pub mod GrownLaws
