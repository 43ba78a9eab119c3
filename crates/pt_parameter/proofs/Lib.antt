pub mod Agreeing
pub mod Binding
pub mod Told
