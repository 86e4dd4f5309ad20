pub mod Members
pub mod Typing
pub mod Children
pub mod AllRegions
pub mod Lvalues
