mod BlockLaws
mod GivenLaws
mod WrittenLaws
mod ArgumentLaws
mod PointLaws
mod RowLaws
mod JoinSteps
mod EffectSteps
mod Members
pub mod AllLaws
