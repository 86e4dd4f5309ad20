pub mod Accessed
pub mod Calls
pub mod Supergraph
pub mod Rows
