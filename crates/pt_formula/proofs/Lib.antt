pub mod Formulas
pub mod TypesBound
