pub mod Linked
mod LinkLaws
mod PartLinks
