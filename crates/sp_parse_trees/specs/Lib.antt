pub mod Depth
pub mod Levels
pub mod Places
pub mod Spelling
pub mod Syntax
pub mod View
pub mod Words
