pub mod DeclaratorView
pub mod Enumerators
pub mod Members
pub mod Parameters
