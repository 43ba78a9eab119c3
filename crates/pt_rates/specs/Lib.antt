pub mod Balance
pub mod Fault
pub mod Laws
pub mod Parts
pub mod Ratio
