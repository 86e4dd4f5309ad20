pub mod AllLaws
pub mod Rows
mod Exchanges
pub mod Nodes
mod AccessedLaws
mod EffectLaws
pub mod Cutting
pub mod UsedLaws
mod AlarmLaws
pub mod Holding
pub mod SystemLaws
