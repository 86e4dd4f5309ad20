pub mod HeadLaws
pub mod PartSteps
pub mod SimpleSteps
pub mod PrefixSteps
pub mod StatementSteps
