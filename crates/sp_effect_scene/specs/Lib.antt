pub mod Analysed
pub mod Whole
pub mod Cells
pub mod SceneLaws
pub mod View
pub mod Laws
