pub mod Lists
pub mod FormalPlaces
pub mod Places
