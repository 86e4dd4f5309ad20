-- What the engine keeps between its steps; no public contract cites it.
pub mod Sparse
pub mod Grid
pub mod Queue
pub mod Links
pub mod Engine
pub mod Order
