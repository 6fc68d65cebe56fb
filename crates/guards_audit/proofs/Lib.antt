pub mod Judging
pub mod PrintedLines
pub mod ReadBack
pub mod LinesBack
pub mod ReportsBack
