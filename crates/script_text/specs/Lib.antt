pub mod ScriptTexts
