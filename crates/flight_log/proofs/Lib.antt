pub mod LastKept
