pub mod Solution
pub mod Cause
pub mod inner
