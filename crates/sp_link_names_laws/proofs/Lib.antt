pub mod Links
pub mod Numbered
pub mod Own
pub mod OwnFunctions
pub mod Sources
