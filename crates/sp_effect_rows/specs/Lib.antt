pub mod Rows
pub mod Setting
pub mod Storing
pub mod Placing
pub mod Laws
pub mod Updates
