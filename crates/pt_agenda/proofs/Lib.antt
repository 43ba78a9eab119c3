pub mod EventLaws
pub mod InputLaws
