pub mod Sorts
pub mod Refines
pub mod Trees
pub mod Starts
pub mod Statements
pub mod Constants
pub mod Programs
