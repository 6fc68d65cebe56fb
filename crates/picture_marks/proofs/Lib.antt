pub mod Same
pub mod MarksReadBack
pub mod ShownSets
pub mod MarkLists
