pub mod TaggedLaws
