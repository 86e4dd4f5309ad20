pub mod Initialisers
pub mod InitView
pub mod Runs
pub mod StaticValues
pub mod Strings
