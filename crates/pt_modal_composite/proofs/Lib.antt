pub mod ModalLaws
