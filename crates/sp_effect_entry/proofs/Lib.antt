pub mod Lists
pub mod JoinedLaws
pub mod GivenLaws
pub mod InitialLaws
pub mod StartLaws
pub mod AllLaws
mod SlotsAre
pub mod Steps
mod Seen
pub mod Results
mod Examples
mod UnionExamples
