pub mod FaultTexts
pub mod Entries
