pub mod LeafLists
pub mod Headers
