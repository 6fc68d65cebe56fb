pub mod Stepping
pub mod Sized
mod StopLemmas
pub mod StoryFilling
