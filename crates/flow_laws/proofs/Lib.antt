mod Closed
mod Parts
mod Steps
