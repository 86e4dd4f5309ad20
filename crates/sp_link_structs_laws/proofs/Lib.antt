pub mod Linked
pub mod Lists
pub mod Same
pub mod Stays
