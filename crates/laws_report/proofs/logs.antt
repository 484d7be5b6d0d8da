pub mod Fitting
pub mod Following
pub mod Standing
