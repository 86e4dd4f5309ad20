pub mod InitSteps
pub mod DeclarationSteps
