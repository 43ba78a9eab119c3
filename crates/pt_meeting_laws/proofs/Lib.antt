pub mod Scenes
pub mod Own
pub mod Firings
pub mod There
pub mod Meanings
