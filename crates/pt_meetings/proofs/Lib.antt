pub mod SiteMeetings
pub mod SiteTexts
pub mod Telling
pub mod Walking
pub mod Building
pub mod Recording
pub mod Owning
