pub mod State
pub mod StateCode
pub mod Clauses
pub mod InARow
pub mod Core
pub mod Chain
pub mod SdfActs
pub mod Bare
