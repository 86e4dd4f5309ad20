-- What is kept while dependencies are found; no public contract cites it.
pub mod Grouped
pub mod Kept
pub mod Users
pub mod Stretches
pub mod Walk
pub mod Progress
