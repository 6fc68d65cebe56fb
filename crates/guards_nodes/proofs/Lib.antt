pub mod PaddedInputs
