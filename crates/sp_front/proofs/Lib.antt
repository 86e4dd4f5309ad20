pub mod EndedLaws
pub mod FileSteps
pub mod TypedFiles
pub mod ProgramSteps
pub mod Totals
