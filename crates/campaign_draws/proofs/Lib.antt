pub mod Drawn
pub mod Passing
pub mod Kept
pub mod DrawnMissions
