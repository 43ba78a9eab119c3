pub mod Networks
pub mod Processes
pub mod Unplanned
