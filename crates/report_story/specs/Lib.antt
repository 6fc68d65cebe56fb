pub mod Answers
pub mod Places
pub mod Sizing
pub mod Stops
