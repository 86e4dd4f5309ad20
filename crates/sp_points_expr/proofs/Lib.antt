mod Waiting
mod Growth
pub mod Adding
pub mod Serving
pub mod Measure
pub mod Held
