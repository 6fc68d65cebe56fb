pub mod TableWords
pub mod ReadWords
pub mod CheckedWords
pub mod CoreRanges
pub mod KeyRanges
pub mod ActuatorRanges
pub mod WholeMission
