pub mod AssignLaws
pub mod Places
pub mod Hits
pub mod Seen
pub mod Fitted
