pub mod Functions
pub mod View
