pub mod NodeStates
pub mod NodeSteps
pub mod NodeFrames
pub mod NodeCalls
pub mod WholeLines
