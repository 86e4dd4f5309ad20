pub mod Layouts
pub mod Leaves
pub mod Seen
pub mod Summaries
