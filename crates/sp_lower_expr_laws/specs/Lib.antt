pub mod Stands
pub mod Grown
pub mod Uses
pub mod Sound
