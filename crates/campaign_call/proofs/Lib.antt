mod Empty
mod Ends
