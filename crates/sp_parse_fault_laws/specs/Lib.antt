pub mod Told
pub mod Missing
pub mod Parameters
pub mod Functions
