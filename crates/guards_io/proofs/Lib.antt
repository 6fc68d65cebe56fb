pub mod SourceTaken
pub mod WritesLemmas
