pub mod SaidWords
