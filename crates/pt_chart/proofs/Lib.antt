pub mod TypedLaws
