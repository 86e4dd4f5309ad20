pub mod Around
pub mod Entries
pub mod Spaces
