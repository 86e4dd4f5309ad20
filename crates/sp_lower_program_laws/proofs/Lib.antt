pub mod One
pub mod Pointers
pub mod Regions
pub mod Typed
