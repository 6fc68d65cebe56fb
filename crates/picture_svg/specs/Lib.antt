pub mod Sheet
pub mod Drawing
pub mod Looks
pub mod Picture
