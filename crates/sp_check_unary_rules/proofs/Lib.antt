pub mod Counts
pub mod Parameters
