pub mod Effects
pub mod Accesses
pub mod Equations
pub mod Laws
pub mod Parts
