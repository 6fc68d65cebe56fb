pub mod Scripts
pub mod ActedIdeal
