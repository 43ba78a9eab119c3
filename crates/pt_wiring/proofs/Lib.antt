pub mod Numbered
pub mod ChildLaws
pub mod PortLaws
pub mod RowLaws
pub mod ArrivalLaws
pub mod InsideLaws
