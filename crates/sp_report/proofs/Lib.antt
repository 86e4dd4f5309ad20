pub mod SetLaws
pub mod LineLaws
pub mod ReportLaws
pub mod FromLaws
pub mod AgreeLaws
mod Examples
