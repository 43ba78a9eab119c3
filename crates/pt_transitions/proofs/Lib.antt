pub mod ReactLaws
pub mod AloneLaws
