pub mod Accesses
pub mod View
pub mod Cuts
pub mod Laws
