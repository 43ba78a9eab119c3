pub mod LibraryActor
pub mod Steady
pub mod Laws
pub mod Delays
