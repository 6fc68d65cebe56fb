pub mod Seen
pub mod Padding
pub mod Masks
pub mod Flags
pub mod Tables
