pub mod BytesRead
pub mod MissionTold
pub mod RowTexts
