pub mod Earlier
pub mod Written
