pub mod Ty
pub mod TyHeight
pub mod Printed
pub mod Entry
