pub mod DirectorLaws
