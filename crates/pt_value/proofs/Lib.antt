pub mod Extended
pub mod Names
pub mod Pairs
pub mod Records
pub mod Texts
