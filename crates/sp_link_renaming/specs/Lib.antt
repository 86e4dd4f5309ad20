pub mod Renaming
pub mod View
