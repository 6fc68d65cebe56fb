pub mod Rounds
pub mod Decisions
pub mod Rising
