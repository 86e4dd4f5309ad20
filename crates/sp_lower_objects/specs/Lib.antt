pub mod Codes
pub mod Initials
pub mod Names
pub mod Objects
pub mod Owners
pub mod Regions
pub mod Routines
pub mod Seen
