pub mod Views
pub mod Sites
pub mod Charted
pub mod Grounds
