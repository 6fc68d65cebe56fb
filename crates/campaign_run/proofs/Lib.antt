pub mod Counts
pub mod Rows
pub mod Campaigning
pub mod Following
