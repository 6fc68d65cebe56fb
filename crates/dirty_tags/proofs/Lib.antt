pub mod MarkSteps
pub mod MarkedLists
