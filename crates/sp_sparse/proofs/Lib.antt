mod Numbers
mod Spreading
mod Working
mod Summing
mod Paying
mod Few
mod Ordered
mod GridLaws
mod Updating
mod Sending
mod Linking
mod Laying
mod Fronts
mod Windows
mod CellLaws
mod Turns
pub mod Told
mod Numbering
