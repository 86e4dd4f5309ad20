pub mod Shaped
pub mod Counts
pub mod CellCounts
pub mod Left
