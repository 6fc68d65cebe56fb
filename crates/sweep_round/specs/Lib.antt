pub mod Replay
pub mod Rounds
pub mod Trails
pub mod Endings
