pub mod Parsing
pub mod Calling
