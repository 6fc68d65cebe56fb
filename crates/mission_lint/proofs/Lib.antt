mod Length
mod Peaks
mod FirstNumber
mod LeastPeriod
