pub mod Faults
pub mod RowWrites
pub mod DistinctBlocks
pub mod Replacing
pub mod KeptRules
pub mod TableRows
pub mod SetOfBlocks
pub mod WholeFault
