pub mod Gathering
pub mod Padded
pub mod Settled
