pub mod JudgedTwice
pub mod GoneInTime
pub mod TooFewAccusers
pub mod LawsOfDecay
pub mod Missions
