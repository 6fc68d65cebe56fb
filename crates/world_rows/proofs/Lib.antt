mod Beginning
pub mod Passed
