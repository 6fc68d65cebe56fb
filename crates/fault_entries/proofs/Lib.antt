pub mod SlotNames
pub mod Fits
pub mod FaultAnswers
