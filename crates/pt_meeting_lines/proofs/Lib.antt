pub mod Paths
pub mod Telling
pub mod Firings
pub mod ExampleLaws
