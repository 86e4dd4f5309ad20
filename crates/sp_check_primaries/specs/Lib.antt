pub mod Composite
pub mod Functions
pub mod Literals
pub mod Names
