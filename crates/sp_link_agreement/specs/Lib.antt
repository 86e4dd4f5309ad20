pub mod Agreement
pub mod Depths
pub mod Inner
pub mod Known
