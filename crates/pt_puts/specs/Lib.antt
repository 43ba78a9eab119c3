pub mod Codes
pub mod Puts
pub mod Lines
pub mod Need
pub mod Fans
