pub mod Steps
pub mod Picked
pub mod Cut
pub mod Stored
pub mod Owned
pub mod Routines
pub mod Listed
pub mod Local
