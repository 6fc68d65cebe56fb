pub mod PlusTexts
pub mod TotalsKept
