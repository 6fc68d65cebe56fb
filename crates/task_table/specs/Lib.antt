pub mod TableFaults
pub mod Tables
pub mod Kept
pub mod Codes
