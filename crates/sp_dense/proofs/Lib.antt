pub mod Cells
mod Counting
mod Grids
mod Queue
mod Reversal
mod Writing
mod Joining
mod Evaluated
mod Visiting
