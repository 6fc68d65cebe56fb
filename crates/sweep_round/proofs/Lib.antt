pub mod RoundSteps
pub mod RoundEnded
