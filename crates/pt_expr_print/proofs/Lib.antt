pub mod Parts
pub mod Escapes
pub mod Heights
pub mod Legal
pub mod Written
pub mod Scanned
pub mod Spelled
pub mod Whole
mod Examples
mod Evaluations
pub mod Tokens
