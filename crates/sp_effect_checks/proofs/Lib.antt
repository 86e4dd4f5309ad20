pub mod CuttingLaws
pub mod CutLaws
pub mod NamedLaws
pub mod AllLaws
pub mod Passes
pub mod Fitting
mod Examples
