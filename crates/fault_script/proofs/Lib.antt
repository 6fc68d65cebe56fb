pub mod Others
pub mod EntryFaults
pub mod ScriptEntries
pub mod LedgerSteps
