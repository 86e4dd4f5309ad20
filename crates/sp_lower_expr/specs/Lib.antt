pub mod Size
pub mod Adding
pub mod Outcome
