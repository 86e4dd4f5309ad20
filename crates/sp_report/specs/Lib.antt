pub mod Texts
pub mod Report
pub mod Lines
pub mod Inputs
pub mod ByNode
pub mod Laws
pub mod Places
pub mod Values
