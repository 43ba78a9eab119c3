pub mod FaultLaws
pub mod ListLaws
pub mod NameLaws
pub mod PortLaws
pub mod KidLaws
pub mod ClaimLaws
pub mod StateLaws
