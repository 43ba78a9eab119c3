pub mod Composites
pub mod Laws
