pub mod Rows
pub mod Frames
pub mod Inequalities
pub mod Passing
pub mod ModalScopes
pub mod Modals
pub mod Typing
