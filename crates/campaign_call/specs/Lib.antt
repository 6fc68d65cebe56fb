pub mod Requests
pub mod Lines
pub mod Documents
pub mod Outcomes
