pub mod Growing
pub mod NodeSends
