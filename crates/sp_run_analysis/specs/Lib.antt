pub mod Outcomes
pub mod Sparse
