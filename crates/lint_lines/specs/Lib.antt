pub mod LineLists
pub mod LineTexts
pub mod ScriptLines
pub mod WordLines
