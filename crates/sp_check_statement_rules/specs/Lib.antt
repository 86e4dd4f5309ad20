pub mod Cases
pub mod Labels
pub mod Repeats
pub mod Blocks
pub mod Rules
pub mod Values
pub mod View
