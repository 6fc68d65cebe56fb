pub mod Grammar
pub mod Names
pub mod Reading
pub mod Views
pub mod Parsing
pub mod Printing
pub mod Parsed
