pub mod Leaves
pub mod Paths
pub mod Sources
pub mod SourceView
pub mod Puts
pub mod Gathered
pub mod Copying
pub mod Foreign
