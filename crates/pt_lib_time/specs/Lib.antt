-- What the classes have in common.
pub mod Signal
-- The rows, class by class.
pub mod Absent
pub mod Current
pub mod Default
pub mod Merge
pub mod NonStrictDelay
pub mod NonStrictLogicGate
pub mod NonStrictMux
pub mod Pre
pub mod When
-- The library.
pub mod TimeActor
pub mod Laws
pub mod Examples
