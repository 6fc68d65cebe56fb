pub mod Forging
pub mod Alike
pub mod Lawful
