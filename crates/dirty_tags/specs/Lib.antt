pub mod Marks
pub mod TagFields
