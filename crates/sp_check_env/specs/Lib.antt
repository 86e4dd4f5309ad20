pub mod Declaring
pub mod Env
pub mod Views
