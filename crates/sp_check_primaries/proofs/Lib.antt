pub mod Jumps
pub mod Pairwise
