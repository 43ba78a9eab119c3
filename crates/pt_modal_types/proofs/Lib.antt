pub mod TreeTypes
pub mod LastLaws
pub mod NameLaws
pub mod ScopeLaws
pub mod KeptLaws
pub mod ActionLaws
pub mod MachineLaws
