pub mod AgendaLaws
pub mod TurnLaws
pub mod RowLaws
pub mod KnownLaws
pub mod NetLaws
