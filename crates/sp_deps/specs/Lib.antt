pub mod Rows
pub mod Open
pub mod Answer
pub mod Cause
pub mod inner
