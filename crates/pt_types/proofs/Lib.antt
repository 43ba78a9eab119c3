pub mod FieldLists
pub mod Records
pub mod Solutions
pub mod Texts
pub mod TokenTypes
