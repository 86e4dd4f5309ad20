pub mod Endings
mod Examples
