pub mod Settled
pub mod FaultKinds
pub mod Viewing
pub mod SeenWords
