pub mod Lists
pub mod Leaving
pub mod Counting
pub mod Texts
pub mod Views
pub mod AgreeLaws
pub mod NodeLaws
pub mod ProperCommands
mod Examples
mod LibraryExamples
mod StartExamples
