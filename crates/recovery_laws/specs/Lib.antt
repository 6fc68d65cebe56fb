pub mod Diagnosed
pub mod CountHistories
pub mod WrongVotes
pub mod PeaksDecided
pub mod LeastPeriods
pub mod Lengths
pub mod Endless
pub mod Returning
