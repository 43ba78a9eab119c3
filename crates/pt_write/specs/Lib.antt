pub mod Written
pub mod Document
pub mod Text
pub mod Form
pub mod Appends
