-- What the engine keeps between its steps; no public contract cites it.
pub mod Waiting
pub mod Visit
