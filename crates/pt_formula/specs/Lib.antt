pub mod TreeCode
pub mod Formula
