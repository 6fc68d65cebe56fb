pub mod Rules
pub mod Standing
pub mod Counts
pub mod Sweeping
