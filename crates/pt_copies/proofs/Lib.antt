pub mod SameItems
pub mod Directors
