mod PaddedWords
pub mod EachChannel
