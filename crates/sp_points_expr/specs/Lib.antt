pub mod Tables
pub mod Queue
pub mod Growing
pub mod Given
pub mod Low
