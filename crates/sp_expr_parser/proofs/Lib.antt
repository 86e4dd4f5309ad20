pub mod ParserSteps
pub mod Errors
pub mod KindLaws
