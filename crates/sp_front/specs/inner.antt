pub mod Errors
pub mod Steps
