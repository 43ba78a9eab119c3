pub mod Agenda
pub mod Turns
pub mod Rows
pub mod StateCode
pub mod Net
pub mod Telling
