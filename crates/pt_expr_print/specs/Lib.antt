pub mod Printed
pub mod Readable
pub mod Literal
