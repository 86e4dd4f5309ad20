pub mod Sources
pub mod Files
pub mod Answers
pub mod inner
