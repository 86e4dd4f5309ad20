pub mod Triples
pub mod Codes
pub mod Kept
