pub mod Matching
pub mod Groups
pub mod Joined
pub mod Laws
pub mod Leading
pub mod Matched
pub mod Turns
