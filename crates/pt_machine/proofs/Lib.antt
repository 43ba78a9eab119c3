pub mod NumberLaws
pub mod Clean
pub mod Suiting
