pub mod OffsetLaws
pub mod InputLaws
pub mod WorkingLaws
