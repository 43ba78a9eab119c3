pub mod State
pub mod Chain
pub mod ModalActs
pub mod Comes
pub mod StateCode
