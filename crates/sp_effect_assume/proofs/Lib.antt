pub mod ConditionLaws
pub mod Steps
mod Examples
