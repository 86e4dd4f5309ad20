pub mod Coding
pub mod Finding
pub mod Searching
pub mod Telling
