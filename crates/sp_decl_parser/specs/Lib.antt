pub mod Seen
pub mod Units
pub mod Parsing
