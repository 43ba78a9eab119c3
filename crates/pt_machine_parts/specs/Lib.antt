pub mod Texts
pub mod Told
pub mod Views
pub mod Numbered
pub mod Own
pub mod Claims
