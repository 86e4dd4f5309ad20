pub mod Lengths
pub mod Members
pub mod Parts
pub mod Walk
pub mod Typed
