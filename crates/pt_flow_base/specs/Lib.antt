pub mod Row
pub mod Limit
pub mod PortTypes
pub mod TypeTable
pub mod Number
pub mod Rates
