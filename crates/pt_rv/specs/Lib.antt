pub mod StateCode
pub mod Parties
pub mod Ends
pub mod Fresh
pub mod Core
