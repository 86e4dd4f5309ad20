pub mod Declarations
pub mod ItemView
pub mod Words
