pub mod Locals
pub mod Parts
