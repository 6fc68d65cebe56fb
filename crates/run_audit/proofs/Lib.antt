pub mod Bounds
pub mod Loop
pub mod FirstLines
pub mod Splitting
pub mod PieceLemmas
pub mod LineLemmas
