pub mod Arguments
pub mod Braces
pub mod Lists
pub mod Places
