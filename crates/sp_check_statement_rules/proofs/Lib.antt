mod Few
pub mod Joins
