mod Adding
mod Bools
mod Finding
mod Grouping
mod Growing
pub mod Held
mod Lists
mod Stretching
mod Using
mod Walks
