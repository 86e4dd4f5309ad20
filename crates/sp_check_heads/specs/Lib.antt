pub mod Formals
pub mod FormalsView
pub mod HeadView
pub mod Heads
