pub mod FlagSets
