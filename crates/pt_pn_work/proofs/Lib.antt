pub mod CoreLaws
pub mod LeastLaws
