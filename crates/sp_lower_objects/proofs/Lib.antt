pub mod Lengths
pub mod Past
pub mod Pushed
