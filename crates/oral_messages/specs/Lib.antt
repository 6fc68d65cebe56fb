pub mod Ranks
pub mod Sets
pub mod Paths
pub mod Trees
pub mod Received
