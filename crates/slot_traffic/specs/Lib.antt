pub mod Counting
pub mod Receiving
pub mod Pieces
pub mod Arrivals
pub mod Carried
pub mod Sending
