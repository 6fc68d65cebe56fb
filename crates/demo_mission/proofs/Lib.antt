pub mod IsDemo
pub mod Drawn
pub mod DemoParts
