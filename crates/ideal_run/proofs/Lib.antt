pub mod WritesLemmas
pub mod Shown
pub mod IdealContexts
pub mod Sensing
