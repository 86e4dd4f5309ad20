pub mod Heads
pub mod Bodies
pub mod Items
pub mod Given
