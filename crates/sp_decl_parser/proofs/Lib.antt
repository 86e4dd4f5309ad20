pub mod ExternalSteps
pub mod UnitSteps
pub mod ParserSteps
