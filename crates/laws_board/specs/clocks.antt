pub mod Runs
pub mod Samples
pub mod Near
pub mod Ordered
pub mod Clocked
pub mod Quickest
