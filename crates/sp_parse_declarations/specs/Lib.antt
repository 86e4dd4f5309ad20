pub mod Seen
pub mod Taking
