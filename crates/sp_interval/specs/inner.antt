-- How products are kept on the way; no public contract cites it.
pub mod Wide
