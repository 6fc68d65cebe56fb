pub mod ToldLengths
