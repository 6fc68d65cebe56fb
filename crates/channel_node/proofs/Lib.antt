pub mod Sensors
pub mod NodeClosed
pub mod Works
pub mod TreeLevels
pub mod RunningFits
pub mod Written
pub mod Lengths
pub mod RunningWorked
