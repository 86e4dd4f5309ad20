pub mod Formed
pub mod Closed
pub mod AllLaws
mod Finding
mod Past
pub mod Few
