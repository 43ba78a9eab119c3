pub mod Lines
pub mod PlaceLines
pub mod KnownLaws
