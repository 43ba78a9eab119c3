pub mod Answered
pub mod Numbers
pub mod Parts
pub mod RecordTypes
pub mod Steps
pub mod Table
