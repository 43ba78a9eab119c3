pub mod Codes
pub mod Document
pub mod View
pub mod Classes
pub mod Outcome
pub mod Names
pub mod TypeTexts
pub mod TypeWords
