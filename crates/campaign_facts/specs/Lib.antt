pub mod Facts
pub mod Tallies
