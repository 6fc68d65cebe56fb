pub mod PlotSteps
pub mod PlacesRise
