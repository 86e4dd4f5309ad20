pub mod Meanings
pub mod Scopes
pub mod Views
