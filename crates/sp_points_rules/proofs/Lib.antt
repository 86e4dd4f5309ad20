mod Laws
mod Finding
mod Taking
mod Cases
pub mod Ranges
pub mod Reaching
pub mod Putting
