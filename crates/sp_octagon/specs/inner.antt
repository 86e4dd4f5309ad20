-- How far the search for least walks and the reading of a kept octagon have come; no public contract cites it.
pub mod Rounds
pub mod Reading
