pub mod Mentions
pub mod Undefined
