pub mod Alarms
pub mod Library
pub mod Commands
pub mod Uses
pub mod Laws
