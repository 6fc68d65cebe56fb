pub mod RuleLines
pub mod Lines
