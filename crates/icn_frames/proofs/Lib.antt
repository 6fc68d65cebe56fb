pub mod BigEndian
pub mod FrontOfZeros
pub mod Loops
pub mod Sets
mod Short
mod Answered
