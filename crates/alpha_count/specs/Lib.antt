pub mod Decays
