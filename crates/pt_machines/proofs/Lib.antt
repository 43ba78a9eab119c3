pub mod TextLaws
pub mod ActionLaws
pub mod ModeLaws
pub mod MachineLaws
pub mod ChildLaws
pub mod GroundLaws
pub mod PlainLaws
