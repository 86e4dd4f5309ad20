pub mod Frames
pub mod Bodies
pub mod Functions
