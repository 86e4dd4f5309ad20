pub mod Cells
pub mod Laid
pub mod Members
pub mod Sizes
