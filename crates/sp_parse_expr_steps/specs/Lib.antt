pub mod States
pub mod Reading
pub mod Declaring
pub mod Levels
