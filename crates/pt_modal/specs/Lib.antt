pub mod Stage
pub mod Lists
pub mod Plan
pub mod Entered
pub mod First
pub mod Views
pub mod Seen
pub mod Signals
