pub mod Counting
pub mod Campaigns
pub mod Ends
pub mod Beside
