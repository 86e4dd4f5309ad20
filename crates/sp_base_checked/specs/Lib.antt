pub mod Answers
pub mod Units
