pub mod Bytes
pub mod Values
pub mod Ranges
pub mod Tokens
pub mod Named
pub mod Levelled
pub mod LevelledStatements
pub mod Law
