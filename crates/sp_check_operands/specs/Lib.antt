pub mod Balances
pub mod Conversions
pub mod Operands
