pub mod Outermost
pub mod Tests
