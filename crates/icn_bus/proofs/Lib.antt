pub mod Links
pub mod Finding
pub mod Switches
