pub mod Early
pub mod Gates
pub mod RowLaws
pub mod Giving
pub mod Merging
pub mod Worked
