pub mod Like
pub mod Linked
pub mod Meets
