mod SameSets
mod Taken
pub mod FirstPassing
pub mod Filling
