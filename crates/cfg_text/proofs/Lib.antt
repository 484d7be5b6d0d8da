pub mod Answering
pub mod Fitting
pub mod Parts
pub mod Putting
