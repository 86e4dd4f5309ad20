pub mod Starts
pub mod Units
