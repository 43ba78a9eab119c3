pub mod Parts
pub mod Plain
pub mod RowLaws
pub mod Tables
