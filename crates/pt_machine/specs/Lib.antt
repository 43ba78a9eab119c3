pub mod Numbers
pub mod Names
pub mod Typed
pub mod Children
pub mod Causes
pub mod Machines
pub mod Laws
