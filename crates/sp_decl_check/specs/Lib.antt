pub mod Definitions
pub mod Units
pub mod Tentative
