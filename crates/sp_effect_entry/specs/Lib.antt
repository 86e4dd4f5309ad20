pub mod Joined
pub mod Given
pub mod Initials
pub mod Entries
pub mod Starts
pub mod Slots
pub mod Laws
