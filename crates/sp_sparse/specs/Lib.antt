pub mod Solution
pub mod Order
pub mod inner
