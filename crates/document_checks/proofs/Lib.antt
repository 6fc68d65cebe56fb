pub mod Keys
pub mod Counts
pub mod EachLemmas
pub mod EachSeen
pub mod Utf8
