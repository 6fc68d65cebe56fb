pub mod Told
pub mod Tests
pub mod Consistency
pub mod Verdicts
pub mod Lines
pub mod Reading
pub mod Reports
