pub mod Sensors
pub mod Middle
