pub mod LineSteps
mod Entries
mod WordSets
