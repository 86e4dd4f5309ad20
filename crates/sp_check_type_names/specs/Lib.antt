pub mod Derivations
pub mod DerivationView
pub mod Tags
pub mod Words
