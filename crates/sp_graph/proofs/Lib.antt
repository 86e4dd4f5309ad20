mod Joining
mod Edges
mod Calling
