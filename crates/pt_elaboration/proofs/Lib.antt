pub mod Lists
pub mod PortTypes
pub mod StartLaws
pub mod FaultLaws
