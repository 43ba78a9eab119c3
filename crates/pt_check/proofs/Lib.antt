pub mod MarkLaws
pub mod TypeLaws
pub mod ChildLaws
