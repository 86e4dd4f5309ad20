pub mod Frames
pub mod Bodies
pub mod Cases
pub mod Declarations
pub mod Statements
pub mod View
