pub mod Marked
pub mod DrawnToEnd
