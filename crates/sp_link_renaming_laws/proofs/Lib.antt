pub mod Types
pub mod Operators
pub mod Trees
pub mod Statements
pub mod Constants
