pub mod DigitsRead
pub mod Spelled
