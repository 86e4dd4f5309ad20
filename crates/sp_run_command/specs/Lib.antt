pub mod Words
pub mod Reading
pub mod Refusals
pub mod Answers
pub mod Run
