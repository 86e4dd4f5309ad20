pub mod Blocks
pub mod Given
pub mod Written
pub mod Effects
pub mod Slots
pub mod Laws
