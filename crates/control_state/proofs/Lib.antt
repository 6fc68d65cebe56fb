pub mod Fronts
pub mod WordsCounted
pub mod RulesInRange
pub mod Cycles
pub mod Decides
pub mod ControlClosed
