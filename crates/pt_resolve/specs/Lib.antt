pub mod Faults
pub mod Broken
pub mod ModalFaults
pub mod DeclaredTypes
pub mod AllInequalities
