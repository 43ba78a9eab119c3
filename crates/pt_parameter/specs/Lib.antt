pub mod ParametersView
pub mod Literals
