pub mod Reading
pub mod Token
pub mod Report
pub mod Listed
pub mod Lines
