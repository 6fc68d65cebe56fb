pub mod Ends
pub mod ToldRuns
