pub mod Views
pub mod Sound
pub mod Answers
pub mod Trees
pub mod Fits
pub mod Closing
