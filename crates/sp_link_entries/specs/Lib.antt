pub mod Entries
pub mod Functions
pub mod Objects
pub mod Units
pub mod Views
