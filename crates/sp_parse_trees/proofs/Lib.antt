mod Examples
mod UnitExamples
pub mod TreeLaws
pub mod TreeViews
