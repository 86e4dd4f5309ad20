pub mod Told
pub mod Counts
pub mod Begin
pub mod Whole
pub mod Memory
