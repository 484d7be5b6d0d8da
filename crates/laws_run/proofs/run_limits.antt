pub mod Few
pub mod Early
pub mod Own
pub mod Ticks
pub mod Drifts
pub mod Keeping
pub mod Runs
