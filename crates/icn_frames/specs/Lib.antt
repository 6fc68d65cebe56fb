pub mod Paths
pub mod Bodies
pub mod Reads
pub mod Writes
