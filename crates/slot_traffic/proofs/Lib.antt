pub mod Charging
pub mod EntryFound
pub mod PiecesRead
pub mod PieceCarriedLemmas
pub mod Members
pub mod CountedInRange
