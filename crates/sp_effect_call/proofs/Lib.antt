mod Examples
pub mod Fits
pub mod ReadCells
pub mod Callees
pub mod LeafLaws
pub mod CopiedLaws
pub mod CopyLaws
pub mod OutsideLaws
pub mod ReturnLaws
pub mod PassedLaws
pub mod AllLaws
mod Joins
mod PassedSteps
pub mod StoringSteps
