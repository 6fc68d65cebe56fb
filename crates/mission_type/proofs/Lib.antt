pub mod MissionSizes
pub mod SensorRows
pub mod OutputWords
