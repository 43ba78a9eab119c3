pub mod SaidNames
pub mod SaidTypes
pub mod SaidWords
pub mod SaidRecords
pub mod SaidLaws
pub mod SaidChecked
pub mod SaidTexts
pub mod SaidExamples
