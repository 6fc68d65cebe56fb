pub mod ClapLine
pub mod Commands
