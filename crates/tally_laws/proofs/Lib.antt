pub mod Entries
pub mod Requests
pub mod Unnamed
pub mod Lengths
