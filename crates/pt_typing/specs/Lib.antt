pub mod Terms
pub mod Grows
pub mod Numbers
pub mod Views
pub mod RuleGrows
pub mod Least
